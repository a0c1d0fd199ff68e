pub mod Refusals
pub mod Rows
