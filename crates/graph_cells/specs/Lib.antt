pub mod Held
pub mod Gathered
pub mod Processing
pub mod Sending
pub mod Shows
pub mod Sound
