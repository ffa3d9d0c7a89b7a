pub mod Bearing
pub mod Quotients
