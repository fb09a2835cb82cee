pub mod DeskRuns
pub mod Ends
pub mod InStep
pub mod InTurn
