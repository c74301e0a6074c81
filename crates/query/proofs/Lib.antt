pub mod Granted
pub mod Grown
pub mod Kept
pub mod Widened
