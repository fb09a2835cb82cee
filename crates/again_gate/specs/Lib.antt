pub mod Again
pub mod Turns
