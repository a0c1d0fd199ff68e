pub mod Single
pub mod Stream
