pub mod Natives
pub mod Tables
