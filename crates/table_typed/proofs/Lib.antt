pub mod Lines
pub mod FlatCompletes
pub mod MatchLength
pub mod Completes
