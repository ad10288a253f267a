pub mod Accesses
pub mod Holders
pub mod Lists
pub mod Markings
