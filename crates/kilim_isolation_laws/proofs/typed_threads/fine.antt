pub mod Heights
pub mod Natives
pub mod Shown
pub mod Fine
