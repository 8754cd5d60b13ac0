pub mod Runs
pub mod Codes
pub mod Workers
pub mod one_worker
pub mod Given
