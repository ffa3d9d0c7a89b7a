pub mod Limits
pub mod Meaning
pub mod Payments
pub mod Totals
pub mod Sound
