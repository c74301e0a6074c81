pub mod Agreeing
mod Finds
pub mod Forests
mod Sums
pub mod Wholes
