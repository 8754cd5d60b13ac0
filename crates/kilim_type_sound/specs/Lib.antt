pub mod Fits
pub mod Sound
pub mod Facts
pub mod Law
pub mod Caught
pub mod Left
pub mod Alike
