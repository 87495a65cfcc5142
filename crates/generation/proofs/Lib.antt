pub mod Listing
pub mod Lowering
pub mod Opening
