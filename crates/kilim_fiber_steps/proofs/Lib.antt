mod Catching
mod Counting
mod Doing
mod Marks
mod Near
mod Operands
mod Woven
