pub mod ClassMethods
pub mod Finding
pub mod FromKeeps
pub mod SameNames
pub mod Through
pub mod ValueClasses
