pub mod Script
pub mod Keys
