mod ByPort
mod Marked
mod Sendings
