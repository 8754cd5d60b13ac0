pub mod Ids
pub mod Superclasses
pub mod Agrees
pub mod Outlining
pub mod types
