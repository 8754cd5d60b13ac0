pub mod Grounds
pub mod Natives
pub mod Moving
pub mod Beginning
pub mod Keeping
