pub mod Receipts
pub mod Before
pub mod Counting
pub mod Seen
pub mod Says
pub mod Lent
pub mod Examples
