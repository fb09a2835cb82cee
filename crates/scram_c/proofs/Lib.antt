pub mod ScramSlots
pub mod VerifierSlots
