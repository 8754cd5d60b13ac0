pub mod Kins
pub mod Renamed
pub mod Words
pub mod Rows
pub mod Moving
pub mod Thrown
