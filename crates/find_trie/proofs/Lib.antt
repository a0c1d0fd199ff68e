pub mod Links
pub mod Found
pub mod Symbols
