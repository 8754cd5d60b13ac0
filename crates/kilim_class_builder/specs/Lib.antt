pub mod Adding
pub mod Frames
pub mod Members
pub mod Gathered
pub mod Building
