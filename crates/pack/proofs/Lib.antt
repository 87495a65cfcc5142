pub mod Pairs
pub mod Tiles
pub mod LookUps
pub mod Turns
pub mod Refusals
pub mod Changes
pub mod Tables
pub mod Examples
