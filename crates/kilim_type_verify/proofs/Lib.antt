pub mod Every
pub mod Flowing
pub mod Rules
pub mod Framed
pub mod Walked
pub mod Verified
pub mod Begins
pub mod Joined
