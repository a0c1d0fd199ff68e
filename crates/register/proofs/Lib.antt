mod TextsLaid
pub mod Checks
mod Changes
mod Accepts
