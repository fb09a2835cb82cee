pub mod Runs
pub mod Through
pub mod Told
