pub mod Outcome
pub mod Inside
pub mod demo
