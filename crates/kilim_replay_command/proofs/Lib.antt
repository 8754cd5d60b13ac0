pub mod Handed
pub mod Never
