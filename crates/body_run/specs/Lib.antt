pub mod Fields
pub mod Seen
pub mod Called
pub mod Passes
pub mod Applications
