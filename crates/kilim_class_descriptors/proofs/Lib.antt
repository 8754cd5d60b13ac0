pub mod Fronts
pub mod Steps
mod Names
pub mod Spelled
pub mod SpelledMethods
pub mod Places
pub mod PlacesMethods
