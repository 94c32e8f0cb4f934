pub mod Writing
pub mod Following
