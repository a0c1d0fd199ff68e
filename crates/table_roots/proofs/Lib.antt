mod Finds
mod Completes
pub mod Written
