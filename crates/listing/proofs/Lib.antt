pub mod Lines
pub mod Widths
pub mod Listing
pub mod Examples
