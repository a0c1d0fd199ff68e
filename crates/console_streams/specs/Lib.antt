pub mod Filled
pub mod Put
pub mod Help
