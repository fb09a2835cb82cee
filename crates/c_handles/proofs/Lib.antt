pub mod Parking
pub mod Parts
