pub mod Looks
pub mod Part
