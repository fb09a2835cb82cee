pub mod Sends
mod Walks
mod Written
