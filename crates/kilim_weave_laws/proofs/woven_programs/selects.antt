pub mod Agreeing
pub mod Together
