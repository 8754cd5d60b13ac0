pub mod Reader
pub mod Spelling
pub mod Format
pub mod Fronts
