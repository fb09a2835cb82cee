pub mod Generator
pub mod Limits
pub mod Lines
pub mod Numbers
pub mod Sessions
pub mod Setting
pub mod Words
