pub mod Parts
pub mod Exchanges
pub mod Stages
pub mod Early
pub mod Late
pub mod Events
