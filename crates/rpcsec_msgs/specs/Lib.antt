pub mod Bodies
pub mod Cred
pub mod InitRes
