pub mod Acting
pub mod Below
pub mod Sole
pub mod Sending
pub mod Laws
