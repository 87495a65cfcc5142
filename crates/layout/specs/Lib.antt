pub mod Limits
pub mod Layout
pub mod Sides
pub mod Steps
