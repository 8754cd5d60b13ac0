pub mod Thread
pub mod Live
pub mod Operands
pub mod Comes
pub mod Begins
pub mod Reach
pub mod Raises
