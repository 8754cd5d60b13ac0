pub mod Sizes
pub mod WovenFiles
pub mod Reports
pub mod Parts
pub mod Laws
pub mod Theorem
