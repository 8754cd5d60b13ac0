pub mod Stamps
pub mod Leading
pub mod Merging
pub mod Examples
