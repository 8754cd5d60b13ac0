pub mod Constructors
pub mod Begins
pub mod Along
pub mod accepted
pub mod gives
pub mod ready
