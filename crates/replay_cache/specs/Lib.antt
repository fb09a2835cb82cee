pub mod Taking
pub mod Held
pub mod Tally
pub mod Heap
pub mod Cells
