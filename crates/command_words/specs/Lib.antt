pub mod Flags
pub mod Said
pub mod Words
