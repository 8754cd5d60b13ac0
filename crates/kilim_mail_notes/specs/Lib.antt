pub mod Histories
pub mod Notes
pub mod Sums
