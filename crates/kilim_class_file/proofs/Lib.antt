pub mod Boths
pub mod Loops
pub mod ClassFormat
pub mod WholeClass
pub mod Fronts
pub mod FaultLaws
