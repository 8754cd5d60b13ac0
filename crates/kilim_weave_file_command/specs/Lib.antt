pub mod Weaving
pub mod Laws
pub mod woven_files
