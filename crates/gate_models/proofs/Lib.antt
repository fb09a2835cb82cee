mod LoopTurns
mod Shortness
