pub mod Stores
pub mod Openings
pub mod Syncing
pub mod Changing
pub mod Settling
