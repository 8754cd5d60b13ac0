pub mod Accepted
pub mod Pauses
