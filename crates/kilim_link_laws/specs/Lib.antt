pub mod Bridge
pub mod Facts
pub mod code_laws
