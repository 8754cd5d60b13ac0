pub mod Standing
pub mod Nexts
pub mod Alike
pub mod Laws
pub mod history
