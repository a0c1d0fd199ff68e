pub mod Rows
pub mod Inside
pub mod Written
