pub mod Law
pub mod answers
