pub mod Codes
pub mod Unary
