pub mod Selection
pub mod Numbered
