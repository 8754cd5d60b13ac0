pub mod Loops
pub mod SlotLaws
pub mod EntryLoop
pub mod EntryFormat
pub mod PoolFormat
pub mod AddLaws
pub mod Fronts
pub mod Tags
