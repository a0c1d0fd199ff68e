pub mod Forms
pub mod ReadsOnce
mod Examples
