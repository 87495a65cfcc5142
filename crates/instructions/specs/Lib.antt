pub mod Looks
