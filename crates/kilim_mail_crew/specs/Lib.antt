pub mod Crew
pub mod Passes
