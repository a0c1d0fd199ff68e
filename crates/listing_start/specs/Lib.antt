pub mod Outset
