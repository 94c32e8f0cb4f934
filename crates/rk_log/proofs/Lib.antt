pub mod Fields
pub mod Batches
pub mod Groups
pub mod Reading
pub mod Causes
pub mod Grouping
pub mod Passing
pub mod Examples
