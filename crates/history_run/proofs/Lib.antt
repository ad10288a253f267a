pub mod Once
pub mod Legal
pub mod Causes
pub mod Reading
pub mod Stepped
