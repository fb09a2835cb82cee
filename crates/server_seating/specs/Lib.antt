pub mod SideBySide
pub mod Through
