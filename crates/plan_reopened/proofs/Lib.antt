pub mod Keeping
pub mod Recoveries
pub mod Reopenings
pub mod Following
