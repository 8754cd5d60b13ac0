pub mod Records
pub mod Following
pub mod Trees
pub mod Fine
pub mod history
