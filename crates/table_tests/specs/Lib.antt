pub mod Costs
pub mod Entering
