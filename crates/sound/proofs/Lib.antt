mod Rows
mod Notes
