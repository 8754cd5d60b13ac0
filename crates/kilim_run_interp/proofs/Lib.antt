mod Entering
pub mod Reading
mod Results
pub mod Running
pub mod Settling
