pub mod Tries
pub mod Fuel
pub mod Impossible
pub mod Trees
pub mod Names
pub mod Holders
pub mod Listed
pub mod ListedTexts
mod ListingOrder
pub mod Worded
pub mod Stable
pub mod Agreement
pub mod LinesFound
mod LineAt
mod Apart
pub mod Departs
pub mod Refusals
pub mod Keeps
pub mod Modules
pub mod EverLoaded
pub mod Elsewhere
pub mod Unchanged
pub mod Moved
pub mod SharedBeginning
pub mod Cases
