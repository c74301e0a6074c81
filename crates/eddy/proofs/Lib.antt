pub mod Admitted
pub mod Asked
pub mod Fed
pub mod Refused
pub mod Slipped
pub mod Stepped
