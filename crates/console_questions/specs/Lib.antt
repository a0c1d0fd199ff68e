pub mod Questions
pub mod RowReplies
pub mod Left
