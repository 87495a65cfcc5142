-- Listing is believed; its first line says so.
pub mod Listing
