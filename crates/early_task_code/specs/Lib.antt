pub mod Machine
pub mod Progress
pub mod Safe
pub mod Steps
