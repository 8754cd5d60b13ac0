mod Decoding
mod First
mod Parts
