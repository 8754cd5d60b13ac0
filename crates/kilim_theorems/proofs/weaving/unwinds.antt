pub mod Pausing
pub mod Counting
