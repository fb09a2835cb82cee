pub mod Mac
pub mod Hi
pub mod Ready
pub mod Four
