pub mod ShortNames
pub mod PartSteps
pub mod Spelled
pub mod SpelledKeytab
pub mod SpelledCcache
pub mod UsageLine
