pub mod Read
pub mod Mapped
pub mod Texts
mod Ints
pub mod Loops
pub mod Split
