pub mod Control
pub mod Keys
pub mod Lines
pub mod Options
