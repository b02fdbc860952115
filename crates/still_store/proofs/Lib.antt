pub mod Frames
pub mod Pieces
pub mod Contents
pub mod Refusals
pub mod Ends
