pub mod Ledger
pub mod Closing
pub mod Mailboxes
pub mod Goings
