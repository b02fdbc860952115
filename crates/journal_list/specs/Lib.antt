pub mod Lists
pub mod Audits
