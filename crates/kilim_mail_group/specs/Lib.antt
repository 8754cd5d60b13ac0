pub mod Group
pub mod Steps
