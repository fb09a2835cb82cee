pub mod Lengths
pub mod Taken
pub mod Made
pub mod Behind
