pub mod Laid
pub mod Operations
pub mod Outcome
pub mod Types
