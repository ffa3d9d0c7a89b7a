pub mod Limits
pub mod Bounds
