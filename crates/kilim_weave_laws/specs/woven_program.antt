pub mod Made
pub mod Law
pub mod labels
