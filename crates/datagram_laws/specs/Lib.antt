pub mod Done
pub mod Replies
pub mod Sessions
