pub mod Pack
pub mod Names
pub mod Changes
