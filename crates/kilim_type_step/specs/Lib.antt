pub mod Tests
pub mod Answers
pub mod Operands
pub mod Families
pub mod Forms
