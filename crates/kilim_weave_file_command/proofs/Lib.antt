pub mod Never
pub mod Isolated
pub mod Made
pub mod Loops
