pub mod Apart
pub mod Formed
pub mod Allowed
