pub mod Command
pub mod Endings
pub mod Lines
pub mod Mechs
pub mod Words
