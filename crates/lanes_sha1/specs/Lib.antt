pub mod Lanes
pub mod Stages
