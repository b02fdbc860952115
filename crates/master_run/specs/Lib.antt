pub mod Yards
pub mod Labors
pub mod Crews
pub mod Posts
pub mod Starts
pub mod Musters
