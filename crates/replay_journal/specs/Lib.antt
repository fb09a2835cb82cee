pub mod Disks
pub mod Files
pub mod Groups
pub mod Images
pub mod Journals
pub mod Memory
pub mod Openings
pub mod Runs
