pub mod Lists
pub mod Seats
pub mod Joined
pub mod Outs
pub mod Opens
pub mod Leaving
