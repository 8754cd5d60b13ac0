pub mod Firsts
pub mod Agreeing
pub mod Places
pub mod Placing
pub mod Unmarked
pub mod Leaving
pub mod Telling
pub mod Truth
pub mod Passing
pub mod Lines
pub mod Settling
mod Lookups
