pub mod Dones
pub mod Laws
pub mod Rows
pub mod Tallies
