pub mod Texts
pub mod Raw
pub mod FullFrames
pub mod WovenFile
pub mod Sizes
