pub mod Listing
pub mod Owners
pub mod BuiltIns
pub mod Differing
pub mod Together
