pub mod PointValues
pub mod SpanKeys
pub mod Told
pub mod Covers
pub mod Within
pub mod Shown
pub mod Cells
