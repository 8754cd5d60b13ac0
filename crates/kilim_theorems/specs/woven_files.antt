pub mod Members
pub mod Descriptors
pub mod Resolving
pub mod Standing
pub mod Laws
pub mod Views
pub mod form
pub mod pool
