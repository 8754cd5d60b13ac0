pub mod Marking
pub mod Codes
pub mod Steps
pub mod Finding
