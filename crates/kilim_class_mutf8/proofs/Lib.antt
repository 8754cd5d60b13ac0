pub mod OneUnit
pub mod Texts
pub mod Wholes
pub mod Written
