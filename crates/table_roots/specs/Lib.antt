pub mod Answers
pub mod Completions
