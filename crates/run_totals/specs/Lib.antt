pub mod Whole
pub mod Sentences
pub mod Drawn
