pub mod Woven
pub mod Weight
pub mod Form
pub mod Samples
pub mod Examples
