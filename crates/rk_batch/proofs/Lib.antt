pub mod Lengths
pub mod Sizes
pub mod Fields
pub mod Operations
pub mod Refusing
pub mod Batches
pub mod Uniqueness
pub mod Firsts
mod Examples
pub mod FailedChecks
