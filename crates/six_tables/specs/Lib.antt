pub mod Indexes
pub mod Stores
