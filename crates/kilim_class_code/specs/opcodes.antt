pub mod Numbers
pub mod Table
pub mod Instr
pub mod Reading
pub mod Exact
