pub mod Code
pub mod Exact
pub mod Marks
pub mod opcodes
