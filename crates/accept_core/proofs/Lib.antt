pub mod Appended
pub mod Uses
pub mod Steps
pub mod Onces
pub mod Lapses
pub mod Goings
pub mod Nexts
pub mod Admits
pub mod StepMade
mod Walks
pub mod Recents
