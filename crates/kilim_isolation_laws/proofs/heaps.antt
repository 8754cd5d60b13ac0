pub mod Reading
pub mod Owned
pub mod Sorts
pub mod Contents
pub mod Built
pub mod Heaps
