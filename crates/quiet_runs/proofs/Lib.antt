pub mod Bare
pub mod Moves
pub mod Runs
pub mod Typed
pub mod Bodies
