pub mod Notes
pub mod Both
pub mod Admitting
pub mod Acts
pub mod Views
pub mod Histories
pub mod Telling
pub mod Weights
