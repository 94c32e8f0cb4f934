pub mod Chunks
pub mod Memory
pub mod SortedOut
pub mod Towers
