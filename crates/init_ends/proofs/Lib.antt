pub mod ShortFirst
pub mod EndSteps
pub mod PlainNames
pub mod PlainStates
pub mod PlainSteps
pub mod Taking
pub mod Starting
pub mod Picking
