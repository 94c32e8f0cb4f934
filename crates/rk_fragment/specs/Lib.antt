pub mod Fragments
pub mod Intervals
