pub mod Lengths
pub mod Fields
pub mod Spellings
pub mod Bare
pub mod Newest
pub mod Images
pub mod Causes
pub mod Installing
mod Examples
