pub mod Statuses
pub mod Books
pub mod Printing
pub mod Stages
pub mod Ready
pub mod Quiet
