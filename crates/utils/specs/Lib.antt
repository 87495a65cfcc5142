pub mod Answers
pub mod Kinds
pub mod Sources
pub mod Slots
pub mod Makes
