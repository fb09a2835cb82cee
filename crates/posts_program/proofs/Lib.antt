pub mod Apart
pub mod Arguments
pub mod BodyLengths
pub mod LowWords
