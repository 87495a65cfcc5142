pub mod Looked
