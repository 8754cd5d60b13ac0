pub mod Names
pub mod Bodies
pub mod Fibers
pub mod Called
pub mod Catching
pub mod Together
