pub mod Deals
pub mod Passes
