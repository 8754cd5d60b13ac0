pub mod Arrays
pub mod Loops
mod Problems
