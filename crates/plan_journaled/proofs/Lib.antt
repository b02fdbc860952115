mod Saying
mod Following
mod Stopping
pub mod Ending
mod Closed
pub mod Anew
mod Recovering
