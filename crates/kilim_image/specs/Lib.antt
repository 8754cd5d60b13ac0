pub mod Text
pub mod Reading
pub mod Journal
pub mod Laws
pub mod Writing
pub mod Lines
