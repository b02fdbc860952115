pub mod Names
mod Addresses
