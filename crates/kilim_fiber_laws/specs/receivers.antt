pub mod Law
pub mod called
pub mod states
