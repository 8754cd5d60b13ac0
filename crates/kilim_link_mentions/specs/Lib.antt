pub mod Decoded
