pub mod Stepping
pub mod RunParts
pub mod Acting
pub mod BlockParts
pub mod Stamping
pub mod Judging
