pub mod Never
pub mod Handed
