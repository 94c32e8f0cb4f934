pub mod EachKey
mod Examples
pub mod Shadows
pub mod Sorting
pub mod Standing
