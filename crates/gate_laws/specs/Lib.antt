pub mod GateSeen
