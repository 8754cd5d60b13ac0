pub mod Lists
pub mod Parameters
pub mod Loops
pub mod Orders
pub mod Fronts
