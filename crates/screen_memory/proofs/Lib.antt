pub mod Memory
mod Examples
