pub mod Batches
pub mod Due
pub mod Pending
pub mod Groups
pub mod Logs
