pub mod LastLine
