pub mod Layers
pub mod State
pub mod Numbers
pub mod Layered
pub mod Lines
pub mod Runs
pub mod Laws
