pub mod Numbers
pub mod Divisors
pub mod Tags
pub mod Opened
pub mod Sealed
pub mod Makings
pub mod Codes
pub mod FoldedConstants
