pub mod Copied
pub mod ReadBack
pub mod Shaped
pub mod NamedTypes
