pub mod Decimals
pub mod Equality
pub mod KeyTests
pub mod Parts
pub mod Places
pub mod Suffixes
pub mod TotalOrders
