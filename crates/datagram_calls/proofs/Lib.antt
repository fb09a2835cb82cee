mod Called
mod Ends
mod Rows
mod Spoken
