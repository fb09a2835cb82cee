pub mod Arguments
pub mod Naming
pub mod Refused
pub mod Saying
