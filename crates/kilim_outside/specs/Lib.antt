pub mod Files
pub mod Causes
pub mod Asked
pub mod written
