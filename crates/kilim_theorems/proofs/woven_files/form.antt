mod AFile
mod LoopFile
mod LoopLinks
