pub mod Rebuilt
pub mod Compared
