pub mod Memory
pub mod Replies
pub mod Completions
