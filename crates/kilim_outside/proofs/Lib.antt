pub mod FileLemmas
pub mod Refused
pub mod Started
