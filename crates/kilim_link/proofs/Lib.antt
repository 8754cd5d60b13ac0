mod Counts
mod There
mod Whole
