mod Codes
mod Numerals
mod Signs
pub mod Texts
mod Wants
