pub mod Counting
pub mod Pairs
pub mod Walking
pub mod Taken
pub mod Turns
pub mod Programs
pub mod SaslProgram
