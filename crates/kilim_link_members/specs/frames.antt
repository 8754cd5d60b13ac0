pub mod Each
pub mod Next
