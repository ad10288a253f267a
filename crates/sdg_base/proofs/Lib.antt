pub mod Laws
pub mod Machine
pub mod Ports
pub mod Wrapping
