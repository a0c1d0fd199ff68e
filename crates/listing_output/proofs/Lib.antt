pub mod Written
pub mod Put
mod Texts
