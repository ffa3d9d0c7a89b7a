pub mod Cents
pub mod Figures
pub mod Laws
pub mod Prices
pub mod Returns
pub mod Rounding
pub mod Variance
