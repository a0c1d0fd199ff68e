pub mod Bytes
pub mod Parts
mod Examples
