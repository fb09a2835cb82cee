pub mod Formed
pub mod KeyNames
pub mod Numbers
pub mod StatusLines
