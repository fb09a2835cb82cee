pub mod Alone
pub mod FragmentSteps
pub mod InARow
pub mod Readings
pub mod WordLengths
pub mod XdrLaws
pub mod CallLaws
pub mod ReplyLaws
