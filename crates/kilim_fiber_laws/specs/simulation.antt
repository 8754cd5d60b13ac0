pub mod Law
pub mod Throwing
pub mod Handling
pub mod beginnings
