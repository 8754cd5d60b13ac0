pub mod Members
pub mod natives
