pub mod Bounds
pub mod Caught
pub mod Exceptions
pub mod FibersCatch
pub mod States
