pub mod Blocks
pub mod Differences
pub mod Heads
pub mod Images
pub mod Sectors
