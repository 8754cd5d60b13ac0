pub mod Items
pub mod Places
pub mod Shown
pub mod Listed
pub mod Meant
