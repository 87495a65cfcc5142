-- Text and Input are believed, Records is auxiliary; the first line of each says so.
pub mod Text
pub mod Records
pub mod Input
