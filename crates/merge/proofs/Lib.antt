pub mod Cells
pub mod Takes
pub mod Steps
pub mod Starts
pub mod OneTree
pub mod Rest
