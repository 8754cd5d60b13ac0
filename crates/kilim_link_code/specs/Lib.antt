pub mod Groups
pub mod Each
