pub mod End
pub mod Cache
pub mod Known
pub mod Mic
pub mod Wrap
pub mod Tokens
pub mod Makings
pub mod Laws
