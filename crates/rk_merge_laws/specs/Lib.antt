pub mod PointValues
pub mod Chunks
pub mod Told
pub mod MergedCovers
pub mod Cells
