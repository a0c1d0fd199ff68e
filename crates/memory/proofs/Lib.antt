pub mod Says
pub mod Pasted
pub mod What
pub mod RecordOk
pub mod StoredSizes
pub mod RecordAs
pub mod Stays
pub mod Keeps
pub mod Fine
mod Examples
pub mod RecordAt
pub mod Put
pub mod Seen
pub mod At
pub mod Tries
