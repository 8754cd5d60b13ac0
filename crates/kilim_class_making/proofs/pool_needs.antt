pub mod Searching
pub mod Places
