pub mod Unions
pub mod Pools
pub mod Cuts
pub mod Laws
