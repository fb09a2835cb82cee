pub mod Acted
pub mod Apart
pub mod Bench
pub mod Calling
pub mod Ended
pub mod Serving
pub mod Staff
