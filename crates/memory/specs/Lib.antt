pub mod Layout
pub mod Sound
pub mod Stored
pub mod Grown
pub mod Read
pub mod Made
