pub mod Steps
pub mod Asking
pub mod Standing
pub mod Reaching
pub mod Arms
pub mod Beginning
