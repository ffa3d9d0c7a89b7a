pub mod Layers
pub mod Splits
