pub mod Hearing
pub mod Creating
pub mod Calls
