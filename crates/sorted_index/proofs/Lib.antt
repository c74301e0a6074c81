pub mod Sorting
mod Halving
mod Searching
pub mod EntryOrder
mod Shifting
pub mod Nearest
