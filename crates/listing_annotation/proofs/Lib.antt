mod NoteAt
pub mod Noted
