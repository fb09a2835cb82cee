pub mod ListGate
pub mod Listed
pub mod LoopLink
pub mod Looping
pub mod Sizes
