pub mod Natives
pub mod Effect
pub mod Raising
pub mod Does
pub mod Moves
pub mod Found
