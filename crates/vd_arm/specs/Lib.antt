pub mod Arm
pub mod Transfers
pub mod Held
pub mod Addressed
pub mod MemArm
pub mod FileArm
pub mod LiarArm
