pub mod Quiet
pub mod Asked
pub mod Stays
pub mod Rest
