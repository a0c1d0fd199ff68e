pub mod Tree
pub mod Links
