pub mod Mailboxes
pub mod Machine
pub mod Fold
pub mod Rest
pub mod Check
