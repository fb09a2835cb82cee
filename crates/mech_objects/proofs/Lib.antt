pub mod Steps
pub mod StandardTalks
