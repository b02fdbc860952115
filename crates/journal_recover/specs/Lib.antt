pub mod Causes
pub mod Gates
pub mod Sinks
pub mod Maps
pub mod Logs
pub mod Answers
