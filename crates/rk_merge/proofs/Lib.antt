pub mod Lists
pub mod Nears
pub mod Counts
pub mod Unions
pub mod Merged
pub mod Totals
