pub mod Interleaving
pub mod Showing
pub mod Settling
pub mod Standing
