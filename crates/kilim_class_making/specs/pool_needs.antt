pub mod Adding
pub mod growth
