pub mod Parts
pub mod Text
pub mod Reading
pub mod Law
pub mod Writing
pub mod Faults
