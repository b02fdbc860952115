pub mod Places
pub mod Books
pub mod Beginnings
pub mod Handing
pub mod Growing
pub mod Openings
pub mod Closings
