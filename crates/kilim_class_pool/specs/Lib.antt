pub mod Entries
pub mod Spelling
pub mod Slots
pub mod Reading
pub mod Adding
pub mod Fronts
pub mod Tagged
