pub mod Pushing
pub mod Drafting
pub mod Shown
pub mod Early
