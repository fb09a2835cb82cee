pub mod Turns
pub mod Serving
pub mod Asking
pub mod Printing
pub mod Runs
