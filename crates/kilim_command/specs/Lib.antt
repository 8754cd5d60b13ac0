pub mod Words
pub mod Reads
pub mod Report
pub mod DemoLine
pub mod Kinds
pub mod RunText
pub mod Writing
pub mod grammar
