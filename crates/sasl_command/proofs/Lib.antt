pub mod Devices
pub mod Turning
pub mod ServeTurns
pub mod Answering
pub mod AskTurns
pub mod Running
