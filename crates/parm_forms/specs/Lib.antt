pub mod Forms
pub mod Rows
pub mod Values
pub mod Presets
pub mod Items
pub mod Fits
