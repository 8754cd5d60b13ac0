-- How the code computes what it answers. No clause of `kilim` cites what stands in this folder.
pub mod Answer
pub mod Respond
