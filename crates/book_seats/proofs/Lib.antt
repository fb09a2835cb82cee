pub mod Acts
pub mod Admitting
pub mod Books
pub mod DeskTold
pub mod Histories
pub mod Moves
pub mod Weights
