pub mod Looks
pub mod Dids
pub mod Standings
pub mod Ends
pub mod Sentences
pub mod Works
pub mod Drawn
pub mod Hands
