pub mod Ascents
pub mod Widest
pub mod Covers
pub mod Joining
pub mod Joins
pub mod Giving
pub mod Places
mod Examples
