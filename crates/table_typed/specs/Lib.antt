pub mod Lines
pub mod Completions
