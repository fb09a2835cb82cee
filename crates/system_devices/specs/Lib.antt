pub mod Devices
pub mod Moves
