pub mod Merges
pub mod Moves
pub mod MergeLaws
