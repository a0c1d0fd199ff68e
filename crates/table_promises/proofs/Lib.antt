pub mod Agreement
pub mod Typed
pub mod Calls
pub mod HandedOut
