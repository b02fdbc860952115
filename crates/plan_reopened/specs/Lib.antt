pub mod Kept
pub mod Recovering
pub mod Reopening
pub mod Laws
