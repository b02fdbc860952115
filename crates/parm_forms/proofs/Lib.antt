pub mod Each
pub mod Printable
pub mod Words
pub mod Pairs
pub mod Fitting
pub mod Tables
pub mod Items
