pub mod Places
pub mod Lists
pub mod Accounts
pub mod Lookup
pub mod Table
pub mod Sound
