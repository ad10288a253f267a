mod Invariant
mod Channels
mod Moves
mod Advances
pub mod Histories
mod Membership
mod Offers
mod Standings
mod Completion
pub mod Outcomes
pub mod Safety
pub mod Serials
pub mod Again
pub mod Kept
