pub mod Bytes
pub mod Numerals
pub mod Items
