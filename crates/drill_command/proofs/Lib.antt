mod Counted
pub mod Counting
pub mod Linking
pub mod Chained
pub mod Drawing
pub mod Fitting
pub mod Joining
pub mod Limits
pub mod Objects
pub mod Rested
pub mod Stepping
pub mod Worked
mod Walks
