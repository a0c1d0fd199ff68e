pub mod Feed
pub mod Run
