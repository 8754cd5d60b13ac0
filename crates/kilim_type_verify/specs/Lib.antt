pub mod Places
pub mod Frames
pub mod Walks
pub mod Verified
