pub mod Text
pub mod Readable
pub mod OneThread
pub mod Read
pub mod NextEntry
pub mod Fronts
