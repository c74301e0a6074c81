pub mod Columns
pub mod Indexes
pub mod Indexed
