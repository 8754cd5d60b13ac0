pub mod Lines
pub mod Images
pub mod Programs
pub mod Parts
pub mod Saving
pub mod Resuming
pub mod Laws
