pub mod Rows
pub mod Shapes
pub mod Places
pub mod Faults
pub mod Drawn
