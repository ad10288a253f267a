pub mod Types
pub mod Machine
pub mod Items
pub mod Ways
pub mod Fits
pub mod Verified
