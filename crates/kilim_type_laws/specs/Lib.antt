pub mod Laws
pub mod members
