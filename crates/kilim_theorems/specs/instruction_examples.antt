pub mod Arithmetic
pub mod Rows
