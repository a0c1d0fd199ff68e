pub mod MatchLength
pub mod LinesIn
