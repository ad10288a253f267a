pub mod Arithmetic
pub mod Limits
pub mod Operations
pub mod Operators
pub mod Ports
pub mod Signatures
pub mod Types
