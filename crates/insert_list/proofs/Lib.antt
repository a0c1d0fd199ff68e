pub mod NamesInsertion
