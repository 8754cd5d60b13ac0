pub mod Past
pub mod Fiber
pub mod Records
pub mod Calls
pub mod Clauses
pub mod named
