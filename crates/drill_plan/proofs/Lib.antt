pub mod Adding
pub mod Arming
pub mod Steps
pub mod Saying
pub mod Ticket
pub mod Verifying
