pub mod shape
pub mod woven_program
pub mod woven_programs
pub mod woven_types
