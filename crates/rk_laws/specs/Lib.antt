pub mod Prefixes
pub mod Newer
pub mod Neighbours
pub mod SameCells
pub mod KeptCells
pub mod SameEntries
pub mod Masks
pub mod Parts
