pub mod Chains
pub mod Cutting
pub mod Pools
pub mod Gaps
pub mod Calls
pub mod Found
mod Examples
