pub mod Counted
pub mod Legs
pub mod Woven
pub mod Marks
pub mod records
