pub mod QueryPlace
pub mod Nodes
pub mod Cycle
pub mod Registered
