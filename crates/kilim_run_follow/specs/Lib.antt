pub mod Follow
pub mod Lending
pub mod Steps
pub mod Resuming
