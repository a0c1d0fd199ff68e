mod Admitted
pub mod Completes
