pub mod Stacked
pub mod Calls
