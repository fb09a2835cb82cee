pub mod MessageLaws
pub mod Named
pub mod PartLaws
pub mod ReadFields
pub mod WriteFields
pub mod WrittenMessages
