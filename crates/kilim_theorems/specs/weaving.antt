pub mod unwinds
pub mod stands
