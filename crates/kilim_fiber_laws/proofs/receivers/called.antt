pub mod Left
pub mod Along
pub mod Begins
pub mod Called
pub mod Natives
pub mod Steps
