pub mod Indices
pub mod Seen
pub mod Given
pub mod Gathering
pub mod Taken
pub mod Partway
pub mod Begun
