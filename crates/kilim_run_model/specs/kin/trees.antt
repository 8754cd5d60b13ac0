pub mod TreeKin
pub mod Laws
