pub mod Pairs
mod Examples
