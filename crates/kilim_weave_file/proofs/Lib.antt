pub mod Loops
pub mod Entries
pub mod Lists
pub mod Pairs
pub mod Sums
