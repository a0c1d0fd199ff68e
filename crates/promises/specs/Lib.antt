pub mod Agreement
pub mod Departs
pub mod Moved
pub mod Refusals
