pub mod Key
pub mod Name
pub mod Geometry
