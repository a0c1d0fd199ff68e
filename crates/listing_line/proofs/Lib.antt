pub mod Goes
pub mod Run
pub mod Capped
mod TextAt
mod Lines
mod Listed
