mod Any
mod Dimensions
mod Found
mod Keeping
pub mod Loops
