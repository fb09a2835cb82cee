pub mod Fields
pub mod KeytabFile
pub mod CcacheFile
pub mod Words
pub mod Making
pub mod Running
