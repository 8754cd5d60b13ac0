pub mod Opened
pub mod built_ins
