mod BuiltInPrograms
mod BrokenPrograms
pub mod BuiltIns
pub mod Upward
