pub mod Offsets
pub mod Stores
pub mod Copies
pub mod Prologue
