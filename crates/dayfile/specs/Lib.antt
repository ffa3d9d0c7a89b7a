pub mod Accounts
pub mod Faults
pub mod Limits
pub mod Runs
pub mod Texts
pub mod Words
