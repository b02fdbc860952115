pub mod Made
pub mod Sentences
pub mod Drawn
