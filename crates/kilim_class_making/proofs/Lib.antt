pub mod Entries
pub mod Compared
pub mod Paired
