mod First
pub mod Joined
mod Whole
