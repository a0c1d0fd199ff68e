pub mod Agreement
pub mod Typed
pub mod HandedOut
