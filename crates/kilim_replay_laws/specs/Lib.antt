pub mod Verdicts
pub mod Leads
pub mod Waiting
pub mod Samples
pub mod shared
