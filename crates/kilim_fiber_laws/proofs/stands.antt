pub mod Laid
pub mod Placed
pub mod Targets
pub mod LiveFacts
pub mod Formed
pub mod serves
pub mod shares
