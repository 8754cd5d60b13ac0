pub mod FromFaults
pub mod SameTypes
pub mod Padded
pub mod Joined
