pub mod Lists
pub mod FlowEdges
pub mod Growing
mod Entries
mod Pairs
mod Rising
mod Loops
