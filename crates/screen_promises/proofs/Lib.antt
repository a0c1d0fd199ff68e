pub mod Replies
pub mod Agreement
