pub mod Linking
pub mod Keeping
