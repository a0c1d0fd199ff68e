pub mod Path
pub mod Output
pub mod Run
pub mod Parts
