pub mod Served
pub mod accepted
pub mod gives
pub mod ready
