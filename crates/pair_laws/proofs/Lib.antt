pub mod Settling
pub mod Ruling
pub mod Granting
mod Creating
pub mod Completing
mod Answered
mod Living
mod CallTurns
mod Ended
pub mod SessionParts
mod Sessions
mod Running
mod Writing
mod Rows
mod Opening
mod Resting
pub mod Entries
pub mod Readiness
mod Walks
mod Tokens
mod Opens
mod Creations
mod EachToken
mod Whole
pub mod Linked
mod Meetings
pub mod SpelledAlone
pub mod PostsResults
