pub mod Flags
pub mod Laid
pub mod Found
pub mod woven_each
