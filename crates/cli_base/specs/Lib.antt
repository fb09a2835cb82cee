pub mod Files
pub mod Given
pub mod Lines
pub mod Numbers
pub mod Words
