pub mod Answered
pub mod Talked
