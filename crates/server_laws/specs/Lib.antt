pub mod Apart
pub mod Beside
pub mod KeptReceipts
pub mod Questions
pub mod Receipts
pub mod ServerHeadline
pub mod Served
pub mod ServerRun
