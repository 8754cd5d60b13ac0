pub mod Lefts
pub mod Shapes
pub mod Slashes
