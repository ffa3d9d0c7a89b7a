pub mod Cancelling
pub mod Owed
pub mod Paying
