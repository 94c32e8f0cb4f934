pub mod Order
pub mod Rising
pub mod Over
pub mod Exact
pub mod Ranks
pub mod Parts
pub mod Falling
pub mod Sound
mod Examples
pub mod Keyed
