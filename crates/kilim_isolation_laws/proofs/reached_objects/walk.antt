pub mod Agree
pub mod Same
pub mod Listed
pub mod Methods
pub mod Walks
