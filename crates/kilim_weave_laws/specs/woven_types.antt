pub mod Same
pub mod Facts
pub mod Theorem
