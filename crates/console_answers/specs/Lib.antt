pub mod Outcomes
pub mod Answers
