pub mod FromTypes
pub mod Lengths
pub mod Items
pub mod Frames
pub mod Whole
