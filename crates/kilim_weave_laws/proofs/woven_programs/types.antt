pub mod Rows
pub mod Walk
pub mod Together
