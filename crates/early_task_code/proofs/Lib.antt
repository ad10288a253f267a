pub mod SafeSteps
mod Carried
mod Vars
mod Running
