pub mod Lones
pub mod Laws
pub mod Parted
pub mod Tied
pub mod Booked
