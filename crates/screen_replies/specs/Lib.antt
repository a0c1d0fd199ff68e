pub mod Replies
pub mod Filters
