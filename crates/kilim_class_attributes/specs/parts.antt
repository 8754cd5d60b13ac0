pub mod Names
pub mod Indices
pub mod Choices
pub mod Frames
pub mod Annotations
pub mod Laws
