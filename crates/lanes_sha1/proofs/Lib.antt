pub mod Compressing
pub mod Digests
pub mod Joining
pub mod LaneLemmas
pub mod Padding
