mod Any
mod ByPlace
