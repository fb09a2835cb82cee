pub mod Cells
pub mod ContentSteps
pub mod GivenInMemory
pub mod InARow
pub mod Pieces
pub mod Shelves
mod Walks
