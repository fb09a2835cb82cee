pub mod LabelCells
pub mod Naming
pub mod Spelled
pub mod Reading
pub mod Spelling
pub mod Turns
pub mod Parting
