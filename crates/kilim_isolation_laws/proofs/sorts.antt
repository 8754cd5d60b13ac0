pub mod KindsOfClasses
pub mod Lines
pub mod Sorted
pub mod Choosing
pub mod TakeRow
pub mod FieldSorts
pub mod Keeping
pub mod Thrown
