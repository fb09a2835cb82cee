pub mod Keeping
pub mod Tallying
pub mod Heaping
pub mod Turning
pub mod Indexing
pub mod Counting
pub mod Caching
