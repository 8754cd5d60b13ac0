pub mod Searching
pub mod Pausing
pub mod Whole
