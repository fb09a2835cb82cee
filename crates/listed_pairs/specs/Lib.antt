pub mod Listed
pub mod NamedPairs
