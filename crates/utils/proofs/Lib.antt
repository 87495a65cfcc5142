pub mod Rest
pub mod Sources
pub mod Made
pub mod Looked
pub mod Rows
pub mod Beyond
