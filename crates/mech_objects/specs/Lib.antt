pub mod Meaning
pub mod Standard
pub mod States
pub mod Objects
pub mod Laws
pub mod Made
