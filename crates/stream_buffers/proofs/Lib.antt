mod Giving
mod Leaving
mod Queueing
mod Waiting
