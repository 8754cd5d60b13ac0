pub mod Names
pub mod ClassLines
pub mod LinkLines
pub mod RuleLines
pub mod Problems
