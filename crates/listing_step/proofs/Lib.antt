pub mod Cuts
pub mod PathDown
