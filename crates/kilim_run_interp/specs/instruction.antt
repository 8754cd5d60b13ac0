pub mod Calls
pub mod Making
pub mod Near
pub mod Operations
pub mod Reached
