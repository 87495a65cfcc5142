pub mod Parts
pub mod Pushes
pub mod Loads
pub mod Calling
