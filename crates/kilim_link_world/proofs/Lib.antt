mod Lists
mod Outlines
mod Below
mod Worlds
mod Upward
mod Climbing
mod Counts
mod Saying
mod Marked
mod Telling
pub mod Loops
