pub mod Distances
pub mod Loops
