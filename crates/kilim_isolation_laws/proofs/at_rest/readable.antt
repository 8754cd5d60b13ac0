mod Shapes
pub mod Nexts
mod Deeds
pub mod Runs
