pub mod Bytes
pub mod Gate
pub mod Map
pub mod Log
pub mod Places
pub mod Recovery
