pub mod Law
pub mod classes
pub mod keeps
pub mod kept
pub mod kinds
pub mod places
pub mod selects
pub mod types
