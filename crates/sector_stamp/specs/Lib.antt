pub mod Block
pub mod Image
