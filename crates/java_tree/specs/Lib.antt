pub mod Heights
pub mod Kinds
pub mod Levels
pub mod Placed
pub mod Texts
pub mod Tokens
pub mod Words
