pub mod Dealings
pub mod Openings
