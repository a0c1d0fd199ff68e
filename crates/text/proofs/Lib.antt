pub mod Texts
pub mod Beginnings
pub mod Laid
