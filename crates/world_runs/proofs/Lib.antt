mod Promising
pub mod Wanting
pub mod LaneTurns
mod RulingTurns
pub mod Turns
mod MetTokens
mod MetTexts
mod MetMessages
pub mod MetRounds
mod MetFinishes
mod MetHonest
pub mod MetPairs
pub mod MetEvents
mod MetStays
pub mod MetCalled
mod MetCalls
mod MetRules
pub mod MetLater
mod MetSpoken
pub mod MetWhole
pub mod Told
pub mod Beginning
pub mod Stepping
pub mod AsCredentials
pub mod AllAsCredentials
