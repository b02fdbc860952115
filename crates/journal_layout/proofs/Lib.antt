pub mod LogParts
pub mod OneOutcome
mod Ranges
pub mod SameGate
pub mod SameRecord
