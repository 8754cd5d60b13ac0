pub mod example
