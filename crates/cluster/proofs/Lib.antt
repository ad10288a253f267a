mod Along
mod Begins
mod Building
mod Draining
mod Histories
pub mod Lists
mod Lowest
mod Offers
mod Outputs
pub mod Places
mod Reading
mod Stands
mod Worlds
