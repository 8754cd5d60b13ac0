pub mod Steps
pub mod Marks
pub mod Fields
pub mod Calls
pub mod Rules
pub mod Actions
pub mod Answers
