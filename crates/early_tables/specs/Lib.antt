pub mod Entries
pub mod Contents
pub mod Methods
pub mod States
