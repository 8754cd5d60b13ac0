pub mod Lists
pub mod Forms
pub mod Codes
pub mod Attributes
pub mod Laws
pub mod Fronts
pub mod Wrapped
pub mod parts
