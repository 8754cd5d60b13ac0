pub mod Nodes
pub mod Gone
pub mod Locals
pub mod Along
pub mod Entry
pub mod Places
pub mod Live
