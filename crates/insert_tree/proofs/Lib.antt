pub mod Changed
mod Marked
mod WithSides
mod Inserted
