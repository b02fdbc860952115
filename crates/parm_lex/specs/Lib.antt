pub mod Chain
pub mod Bytes
pub mod Grammar
pub mod Lines
pub mod Spans
pub mod Spelling
