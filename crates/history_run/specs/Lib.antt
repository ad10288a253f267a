pub mod Stepping
pub mod Made
pub mod Replays
