pub mod Answers
pub mod Checks
pub mod File
pub mod Laws
pub mod Made
pub mod Parts
pub mod Records
