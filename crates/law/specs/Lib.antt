pub mod Histories
pub mod Law
pub mod Steering
pub mod Driving
pub mod Examples
