pub mod AskedHeap
pub mod Roots
pub mod Takers
pub mod State
