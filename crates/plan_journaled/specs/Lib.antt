pub mod Over
pub mod Journaled
pub mod Laws
