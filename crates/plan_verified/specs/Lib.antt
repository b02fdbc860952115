pub mod Stores
pub mod Back
pub mod Laws
