pub mod Calls
pub mod Formulas
pub mod Inputs
pub mod Sound
pub mod Step
