pub mod Joined
pub mod Parted
pub mod Units
pub mod Tokens
pub mod Journals
pub mod Preorder
pub mod Pushed
pub mod Readings
pub mod TokensRead
pub mod ShapesRead
pub mod ActsRead
pub mod TextRead
mod Digits
