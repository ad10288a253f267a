pub mod Results
pub mod Simulation
pub mod Again
pub mod Kept
