pub mod Disk
pub mod Calls
pub mod Step
pub mod Tale
pub mod MemDisk
