pub mod Places
pub mod Words
pub mod frames
pub mod Cause
pub mod Machine
pub mod Objects
pub mod Shapes
pub mod Trees
