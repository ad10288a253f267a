pub mod Steps
pub mod Instructions
pub mod Runs
pub mod Carried
pub mod Tasks
pub mod Ends
pub mod Items
pub mod Small
