pub mod Few
pub mod Orders
pub mod Walks
pub mod Examples
