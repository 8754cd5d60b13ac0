pub mod Firsts
pub mod Files
pub mod Repeats
pub mod Earlier
