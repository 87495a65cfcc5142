pub mod Editions
pub mod Answers
pub mod Meaning
pub mod RoundTrip
pub mod Walked
