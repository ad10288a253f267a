pub mod CallTurns
mod Frames
mod Histories
pub mod Keeping
mod Moves
mod Passes
mod Seams
mod Steps
pub mod Turns
