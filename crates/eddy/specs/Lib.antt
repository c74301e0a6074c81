pub mod Counted
pub mod Limits
pub mod Refusals
pub mod Runs
pub mod Feeds
pub mod Slips
