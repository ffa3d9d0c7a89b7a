pub mod Listing
pub mod Lookup
pub mod Tables
