pub mod Mailboxes
pub mod Parked
