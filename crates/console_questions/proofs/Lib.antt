pub mod RowReplies
pub mod Shown
