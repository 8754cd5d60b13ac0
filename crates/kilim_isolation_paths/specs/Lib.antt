pub mod Paths
pub mod Folds
pub mod Stored
pub mod Search
pub mod Answer
