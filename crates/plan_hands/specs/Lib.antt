pub mod Stores
pub mod Openings
