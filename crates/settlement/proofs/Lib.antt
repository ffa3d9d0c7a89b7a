pub mod Cancelling
pub mod Owed
pub mod Passing
mod Ring
pub mod Sizes
mod Turns
pub mod Settled
