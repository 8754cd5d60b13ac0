pub mod Formats
pub mod Whole
pub mod Lines
pub mod Sizes
