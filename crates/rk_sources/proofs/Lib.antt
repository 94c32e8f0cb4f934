pub mod Bounding
mod Examples
