pub mod Read
pub mod Came
pub mod Executing
pub mod Booting
pub mod Moving
pub mod Threads
