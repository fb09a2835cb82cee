pub mod Carried
pub mod Opening
pub mod Protection
pub mod Service
