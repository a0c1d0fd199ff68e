pub mod Checks
pub mod Writes
