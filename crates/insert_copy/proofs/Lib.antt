pub mod WithKey
