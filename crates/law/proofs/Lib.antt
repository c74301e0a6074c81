mod Fits
mod Owing
mod Sound
mod Fed
mod Paid
mod Outputs
pub mod InOrder
mod Once
mod Costs
mod Drains
mod Asks
mod Room
mod Progress
mod Shuffles
mod Algebra
pub mod Whole
pub mod Steered
mod Following
pub mod Making
pub mod Going
pub mod Clear
mod Worked
