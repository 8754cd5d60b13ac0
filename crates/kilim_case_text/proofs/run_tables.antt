pub mod Entries
pub mod Chained
pub mod Below
pub mod Full
