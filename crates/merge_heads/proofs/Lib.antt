pub mod Cells
pub mod Compare
pub mod Heads
