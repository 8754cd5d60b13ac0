pub mod Worlds
pub mod Along
pub mod Lands
pub mod Reached
pub mod Whole
