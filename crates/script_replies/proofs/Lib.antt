pub mod LineReply
pub mod Examples
