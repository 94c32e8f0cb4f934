pub mod Encoding
pub mod Checks
pub mod Kept
pub mod Grammar
pub mod Reading
