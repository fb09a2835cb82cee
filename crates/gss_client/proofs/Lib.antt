pub mod NextRecord
pub mod Parts
pub mod CallLengths
pub mod TalkSteps
pub mod NoFaults
pub mod Nearer
pub mod ResultStands
pub mod AnyCount
pub mod InConversation
mod InConference
pub mod WholeTalk
mod WholeConference
mod Counts
mod Finishing
mod Verifying
pub mod PlainReplies
pub mod PlainTurns
