pub mod SharedKey
pub mod Objects
