mod Listed
mod NamedPairs
