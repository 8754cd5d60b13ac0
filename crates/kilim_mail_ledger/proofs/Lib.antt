pub mod Balances
pub mod Rests
pub mod Mailboxes
pub mod Shapes
pub mod Goings
