pub mod Plain
pub mod SerialRuns
pub mod Calling
