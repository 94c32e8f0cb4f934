pub mod Keys
pub mod KeyTests
pub mod Laws
pub mod Refusals
