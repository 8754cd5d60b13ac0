pub mod Bytes
pub mod Formats
pub mod Loops
pub mod Calls
pub mod Fronts
