pub mod Answers
pub mod Messages
pub mod Status
pub mod Steps
