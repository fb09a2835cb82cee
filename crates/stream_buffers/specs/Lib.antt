pub mod Ahead
pub mod Behind
pub mod Buffered
pub mod HeldStreams
