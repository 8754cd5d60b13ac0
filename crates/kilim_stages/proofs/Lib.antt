pub mod Named
pub mod None
pub mod Both
pub mod Plain
pub mod Parts
pub mod Apart
