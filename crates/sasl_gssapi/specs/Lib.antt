pub mod Refusals
pub mod Objects
pub mod Choosing
pub mod Steps
pub mod Agreeing
pub mod Ends
pub mod Initiating
pub mod Accepting
