pub mod Fold
pub mod Key
pub mod Derivation
pub mod Sealing
pub mod Making
pub mod Kept
pub mod SideBySide
pub mod Laws
