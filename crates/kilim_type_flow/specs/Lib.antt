pub mod Table
pub mod Marks
pub mod Edges
pub mod Listing
