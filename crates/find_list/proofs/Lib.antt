pub mod Collections
pub mod Holder
pub mod NamesPlaced
