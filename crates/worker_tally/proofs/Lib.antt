pub mod RowSteps
pub mod TurnNumbers
