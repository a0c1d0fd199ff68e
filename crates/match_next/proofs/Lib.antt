mod Least
mod NextMatch
