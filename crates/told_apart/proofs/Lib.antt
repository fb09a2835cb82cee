pub mod Places
pub mod Octets
