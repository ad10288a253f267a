pub mod Counting
pub mod Entering
pub mod Joining
pub mod Leading
pub mod Resting
pub mod Setting
pub mod Visiting
