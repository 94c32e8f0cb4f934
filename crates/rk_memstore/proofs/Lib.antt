pub mod Numberings
pub mod Orders
pub mod Joined
pub mod Copies
pub mod Steps
pub mod Live
pub mod Commits
pub mod Pins
