pub mod One
pub mod Leads
pub mod Samples
pub mod Settling
pub mod Waiting
