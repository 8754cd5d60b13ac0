pub mod OutputFile
pub mod Written
