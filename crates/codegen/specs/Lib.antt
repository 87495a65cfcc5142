pub mod Context
pub mod Utils
pub mod Instructions
pub mod Arithmetic
pub mod Frame
pub mod Generation
pub mod Bounds
pub mod Excess
