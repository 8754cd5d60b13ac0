pub mod Firsts
pub mod Interfaces
pub mod Lefts
pub mod Rows
pub mod Shaped
pub mod Slashes
pub mod Loops
