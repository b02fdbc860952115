pub mod Bounds
pub mod Chosen
pub mod Draws
pub mod Generators
pub mod Kept
pub mod Placed
pub mod Planned
pub mod Steps
