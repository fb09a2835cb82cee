pub mod Noted
pub mod Received
