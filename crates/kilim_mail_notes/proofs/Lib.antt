pub mod Cells
pub mod Sums
