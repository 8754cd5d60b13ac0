pub mod Loops
pub mod Texts
pub mod Adds
pub mod Lists
pub mod Gathering
