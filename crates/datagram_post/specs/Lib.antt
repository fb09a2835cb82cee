pub mod Posts
pub mod MemPost
