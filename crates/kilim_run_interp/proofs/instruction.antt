mod Far
mod Fields
pub mod Growing
mod Invokes
mod News
mod Operands
mod Reaching
mod Tables
mod Texts
