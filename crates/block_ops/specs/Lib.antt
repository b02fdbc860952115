pub mod Runs
pub mod Acts
pub mod Transfers
pub mod Answers
