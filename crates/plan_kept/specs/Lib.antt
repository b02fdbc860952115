pub mod Fits
pub mod Counts
pub mod Clean
pub mod Laws
