pub mod Calls
pub mod Chained
pub mod Drilled
pub mod Fitting
pub mod Held
pub mod Paired
pub mod Rested
pub mod Served
