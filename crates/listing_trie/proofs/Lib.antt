pub mod TrieGives
pub mod Runs
pub mod EntriesRun
pub mod Branch
pub mod Listed
pub mod Trie
