pub mod Texts
pub mod Loops
pub mod Named
pub mod Summed
pub mod Written
