pub mod Heard
mod Lengths
mod Noting
mod Sides
mod Sends
mod Starts
