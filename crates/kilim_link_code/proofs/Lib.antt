mod Loops
mod Found
