mod Numbered
mod Ruled
mod Only
mod Sends
