pub mod Money
pub mod Refused
pub mod Paid
pub mod Totals
pub mod Taken
