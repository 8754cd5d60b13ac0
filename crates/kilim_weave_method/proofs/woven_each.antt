pub mod OfKind
pub mod All
pub mod Extending
pub mod BuiltIn
pub mod Counting
