pub mod Credentials
pub mod Loading
pub mod Runs
