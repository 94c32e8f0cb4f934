pub mod Adapters
pub mod Calls
pub mod Causes
pub mod Disks
pub mod Refusals
pub mod Sinks
pub mod Vaults
pub mod Counts
