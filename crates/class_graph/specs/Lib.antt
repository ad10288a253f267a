pub mod Graphs
pub mod Correct
