pub mod Registers
pub mod Records
pub mod Decode
