pub mod Drafts
pub mod Lawful
pub mod Queries
pub mod Questions
pub mod Rows
