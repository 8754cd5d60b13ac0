pub mod Frames
pub mod Keeps
pub mod Hands
pub mod Passes
