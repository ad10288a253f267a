pub mod Implementing
