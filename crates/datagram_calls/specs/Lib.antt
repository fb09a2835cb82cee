pub mod Credentials
pub mod Calls
pub mod Sessions
pub mod Runs
