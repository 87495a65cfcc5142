pub mod Types
pub mod Answers
pub mod Function
pub mod Lines
