pub mod Parts
pub mod Applied
