pub mod Reports
pub mod Stage
pub mod Laws
pub mod Parts
