pub mod Names
pub mod Lists
pub mod Named
pub mod WaitLists
pub mod Waiting
