pub mod Stay
pub mod Nexts
pub mod Full
pub mod Closed
pub mod Shared
pub mod Going
pub mod Begun
pub mod Calls
