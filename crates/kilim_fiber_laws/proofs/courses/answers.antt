pub mod Answers
pub mod Asked
pub mod Deeds
pub mod Table
pub mod Texts
