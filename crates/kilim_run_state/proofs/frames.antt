mod Backwards
mod Levels
mod Loops
mod Slots
