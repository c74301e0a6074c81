pub mod Next
pub mod Builds
pub mod Laws
