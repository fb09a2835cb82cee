mod Judgements
mod Listening
mod Turns
mod Loops
