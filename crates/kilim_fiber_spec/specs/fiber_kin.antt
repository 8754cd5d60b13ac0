pub mod Mine
pub mod Held
pub mod Served
pub mod Acts
