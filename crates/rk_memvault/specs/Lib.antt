pub mod Honesty
pub mod Images
pub mod Records
pub mod Slots
