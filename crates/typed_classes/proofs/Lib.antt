pub mod Bodies
pub mod Whole
pub mod Unmarking
pub mod Placing
pub mod Headers
