pub mod ProgramOf
pub mod Accepted
pub mod Reports
pub mod Runs
pub mod Laws
pub mod Parts
pub mod woven_stage
