pub mod Stores
pub mod Sizes
