mod Held
pub mod Replies
mod RepliesModule
pub mod RepliesLines
pub mod RepliesShared
pub mod SoundBytes
