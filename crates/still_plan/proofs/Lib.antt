pub mod Places
pub mod Sayings
pub mod Frames
pub mod Recoveries
pub mod Verifications
pub mod Stills
