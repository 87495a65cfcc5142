-- Believed, all of them: the claims of demands 2 and 3 and what they rest on.
pub mod Word
pub mod Machine
pub mod Encodings
pub mod Steps
pub mod Plain
pub mod Frames
pub mod Simulation
pub mod Calls
