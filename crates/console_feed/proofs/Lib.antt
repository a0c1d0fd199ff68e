pub mod Steps
pub mod Run
