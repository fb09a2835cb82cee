mod FreshDesks
pub mod Acts
pub mod NoKeys
