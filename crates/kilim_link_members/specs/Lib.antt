pub mod Each
pub mod frames
pub mod Parts
