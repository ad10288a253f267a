pub mod Written
pub mod Prefixes
pub mod ReadOn
pub mod InOrder
pub mod Holding
