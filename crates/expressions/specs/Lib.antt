pub mod Evaluations
pub mod Expressions
pub mod Readings
