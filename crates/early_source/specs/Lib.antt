pub mod Variables
pub mod Expressions
pub mod Sites
pub mod Members
pub mod Blocks
pub mod Source
pub mod Serial
