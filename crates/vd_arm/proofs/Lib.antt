pub mod Parts
pub mod Addresses
