mod Lists
pub mod Folds
mod Channels
pub mod Invariant
mod Changes
mod Moves
mod Parts
mod Weights
mod Advances
pub mod Histories
pub mod Outcomes
pub mod Late
pub mod Replay
mod Example
