pub mod Beside
pub mod Accepting
