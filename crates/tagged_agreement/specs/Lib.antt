pub mod Machine
pub mod History
pub mod Source
pub mod Simulation
pub mod Laws
pub mod Example
