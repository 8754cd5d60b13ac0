pub mod Orders
pub mod NextEntry
pub mod Going
pub mod Gone
pub mod Coming
pub mod Journals
pub mod Seats
