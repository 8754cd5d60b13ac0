pub mod Waiters
pub mod Entries
pub mod Bodies
pub mod Acting
pub mod Serving
