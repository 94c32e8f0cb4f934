pub mod Calls
pub mod Changes
pub mod Reading
pub mod Records
