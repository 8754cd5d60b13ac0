pub mod Showing
pub mod Pieces
pub mod Sizes
pub mod Unmoved
pub mod Putting
