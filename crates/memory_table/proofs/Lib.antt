pub mod Table
pub mod UsedPart
