pub mod Modules
pub mod Order
pub mod Xorshift
pub mod Tickets
pub mod Listed
pub mod Least
pub mod Weights
