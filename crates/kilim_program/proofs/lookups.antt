mod Lists
mod Numbers
mod Steps
pub mod ByName
pub mod Rising
