pub mod Noted
pub mod TextOk
pub mod Far
pub mod Tests
