pub mod Walk
pub mod Room
pub mod Moved
pub mod Steps
pub mod Shaping
pub mod Emitted
pub mod Standing
