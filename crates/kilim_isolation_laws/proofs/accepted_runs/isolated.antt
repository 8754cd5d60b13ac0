pub mod Isolated
