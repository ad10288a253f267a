pub mod Words
pub mod Mnemonics
pub mod Written
pub mod Found
pub mod Forms
pub mod Writable
pub mod Reading
