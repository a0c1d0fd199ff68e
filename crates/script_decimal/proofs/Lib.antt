mod Bytes
pub mod Numerals
pub mod Decimal
pub mod Items
