pub mod Changes
pub mod Laws
pub mod Limits
pub mod Positions
pub mod Trading
