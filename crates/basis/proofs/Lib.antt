pub mod Alls
pub mod Exact
pub mod Counted
