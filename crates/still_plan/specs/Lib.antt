pub mod Lines
pub mod Frame
pub mod Journals
pub mod Stores
pub mod Still
