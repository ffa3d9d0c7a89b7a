pub mod Balance
pub mod Holds
pub mod Passed
pub mod Placed
pub mod Positions
