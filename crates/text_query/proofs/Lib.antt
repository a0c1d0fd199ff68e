pub mod Segments
pub mod Surveys
