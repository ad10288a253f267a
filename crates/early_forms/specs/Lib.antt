pub mod Trees
pub mod Names
pub mod Forms
pub mod Parts
pub mod Scope
