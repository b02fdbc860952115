pub mod BitLemmas
pub mod Fronts
pub mod LaneSteps
pub mod OnePattern
pub mod Squares
pub mod FarBytes
