pub mod Task
pub mod Turns
pub mod Words
pub mod Keeps
pub mod Laws
