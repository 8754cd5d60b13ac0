pub mod Places
pub mod Typing
pub mod FromSteps
pub mod Raising
pub mod Given
pub mod Thread
pub mod Beginning
