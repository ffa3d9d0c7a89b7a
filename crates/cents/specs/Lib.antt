pub mod Layer
pub mod Sends
pub mod Sound
