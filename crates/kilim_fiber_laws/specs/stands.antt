pub mod Law
pub mod serves
pub mod shares
