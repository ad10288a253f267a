pub mod Quiet
pub mod Bodies
