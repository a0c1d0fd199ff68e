pub mod Filters
mod Examples
