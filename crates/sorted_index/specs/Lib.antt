pub mod Sorting
pub mod Entries
