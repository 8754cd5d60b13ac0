pub mod Kin
pub mod Laws
pub mod trees
pub mod frames
