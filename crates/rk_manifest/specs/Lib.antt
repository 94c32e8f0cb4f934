pub mod Versions
pub mod Manifests
pub mod Calls
