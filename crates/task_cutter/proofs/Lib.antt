mod Ranges
mod Numbering
