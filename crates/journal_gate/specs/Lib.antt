pub mod Left
pub mod Withheld
