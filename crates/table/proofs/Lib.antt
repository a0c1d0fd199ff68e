pub mod Says
mod Finds
pub mod Answers
pub mod Completes
