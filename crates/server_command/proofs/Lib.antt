pub mod Completions
pub mod Sides
pub mod Telling
pub mod Disks
pub mod Lending
