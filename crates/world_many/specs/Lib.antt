pub mod Lists
pub mod Carried
