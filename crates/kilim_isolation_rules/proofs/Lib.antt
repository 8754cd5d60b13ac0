pub mod Pieces
pub mod Every
pub mod Climbing
pub mod Slots
pub mod Constants
pub mod Acting
