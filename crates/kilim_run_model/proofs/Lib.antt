pub mod Steps
pub mod SmallRun
pub mod Examples
pub mod Edges
pub mod Alone
pub mod Anywhere
pub mod Raised
