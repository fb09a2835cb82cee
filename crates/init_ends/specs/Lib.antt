pub mod Objects
pub mod Ends
pub mod Initiating
pub mod EndLaws
pub mod Plain
pub mod Arming
