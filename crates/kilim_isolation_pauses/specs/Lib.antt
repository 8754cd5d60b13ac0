pub mod Pausing
pub mod Answers
