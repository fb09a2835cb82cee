mod Places
mod Rows
mod Acts
mod Steps
mod Outcomes
mod Under
mod Counting
mod Apart
mod Windows
mod Rises
pub mod Books
pub mod Viewed
mod Once
