mod Examples
pub mod Honest
pub mod ImageTests
pub mod Moments
pub mod Runs
pub mod Starved
pub mod Steps
pub mod Writes
