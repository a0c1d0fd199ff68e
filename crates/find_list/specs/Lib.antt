pub mod Names
pub mod Entries
