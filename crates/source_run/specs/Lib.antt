pub mod Seen
pub mod Makes
pub mod Visiting
pub mod Calling
pub mod Sources
pub mod Stepping
