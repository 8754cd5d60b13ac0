pub mod Mains
pub mod Served
pub mod Never
pub mod Starts
pub mod Saves
pub mod Resumes
