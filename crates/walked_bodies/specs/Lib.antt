pub mod Begun
pub mod Walked
