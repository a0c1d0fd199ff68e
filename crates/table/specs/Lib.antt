pub mod Header
pub mod Answers
pub mod Registrations
pub mod Completions
