pub mod ClassLists
pub mod Methods
pub mod Naming
pub mod Selecting
pub mod Frames
pub mod Handled
pub mod Theorem
pub mod Tables
