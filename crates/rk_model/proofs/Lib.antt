pub mod Ends
mod Examples
mod HistoryExamples
pub mod Filters
pub mod Lasts
pub mod Lists
pub mod Members
pub mod Orders
pub mod Pairs
pub mod Readings
pub mod Points
pub mod Positions
pub mod Seeks
pub mod SortedKeys
pub mod Spans
pub mod Walks
pub mod Numbers
pub mod Paying
pub mod Gaps
pub mod Passing
pub mod Clips
