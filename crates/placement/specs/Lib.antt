pub mod Defaults
pub mod Ports
pub mod Slots
