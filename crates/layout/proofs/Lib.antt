pub mod Laws
pub mod Passed
pub mod Refused
pub mod Sides
pub mod Turns
pub mod Walk
