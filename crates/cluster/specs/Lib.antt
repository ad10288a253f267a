pub mod History
pub mod World
pub mod Standing
pub mod Beginning
pub mod Offering
pub mod Results
