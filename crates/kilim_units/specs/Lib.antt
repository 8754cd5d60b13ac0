pub mod Characters
pub mod NameText
