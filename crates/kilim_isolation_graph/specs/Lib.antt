pub mod Nodes
pub mod Graphs
pub mod Canonical
pub mod Entry
pub mod Orders
