pub mod KeyOctets
mod Unsealing
pub mod HonestCalls
