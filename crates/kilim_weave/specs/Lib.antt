pub mod Faults
pub mod Weaves
