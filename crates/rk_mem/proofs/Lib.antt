pub mod Numbers
pub mod Sorting
pub mod Split
pub mod Merging
pub mod Towers
pub mod Commits
mod Examples
