pub mod Merges
pub mod Moves
pub mod MergeLaws
pub mod Visibles
pub mod VisibleLaws
