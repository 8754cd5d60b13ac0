pub mod Wishes
pub mod Fibers
