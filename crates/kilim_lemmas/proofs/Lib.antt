pub mod Truth
pub mod Options
pub mod Lists
pub mod Texts
pub mod Orders
pub mod Maps
pub mod Walks
