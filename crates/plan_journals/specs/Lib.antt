pub mod Open
pub mod Growth
pub mod Opening
pub mod Closing
pub mod Laws
