pub mod Demo
pub mod Ready
