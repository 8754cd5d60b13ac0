pub mod Roots
pub mod Asking
mod Raised
pub mod Reaching
pub mod Going
mod Running
pub mod Rewinding
mod Called
