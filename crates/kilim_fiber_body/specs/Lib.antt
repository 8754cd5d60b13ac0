pub mod Body
pub mod Comes
pub mod Operands
pub mod Begins
pub mod Steps
pub mod Reach
pub mod Legs
pub mod Answers
