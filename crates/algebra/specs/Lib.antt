pub mod Algebra
pub mod Lines
pub mod Meets
