pub mod Whole
pub mod Lists
pub mod Others
pub mod Back
pub mod Depths
pub mod Readings
pub mod Exact
pub mod Exactness
