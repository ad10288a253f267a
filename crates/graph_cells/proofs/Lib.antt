mod Buffers
mod Calls
mod Gathering
mod Inserting
mod Listed
mod Processed
mod Shown
