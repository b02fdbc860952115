pub mod Pattern
pub mod Recurrences
