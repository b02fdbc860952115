pub mod Shape
pub mod Limits
pub mod Names
pub mod Blocks
pub mod Laws
