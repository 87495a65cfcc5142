pub mod Answers
pub mod Pass
pub mod Survey
