pub mod Along
pub mod Tasks
