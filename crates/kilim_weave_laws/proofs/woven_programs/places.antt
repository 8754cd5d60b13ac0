pub mod Items
pub mod Together
