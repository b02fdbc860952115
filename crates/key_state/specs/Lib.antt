pub mod Entries
pub mod Facts
pub mod Books
pub mod Quiet
