pub mod Step
pub mod Catching
pub mod Run
pub mod instruction
