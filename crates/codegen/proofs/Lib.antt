pub mod Results
pub mod Lowers
pub mod Shapes
pub mod Stacked
pub mod Refusals
pub mod Codes
pub mod Ranks
pub mod Taken
