pub mod Branches
pub mod Placed
pub mod Past
pub mod Keep
pub mod Links
pub mod After
pub mod Matches
