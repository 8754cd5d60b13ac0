mod Bounds
mod Caught
mod Exceptions
mod FibersCatch
mod States
