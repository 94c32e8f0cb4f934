pub mod AppendSteps
pub mod Appending
mod Examples
pub mod Images
pub mod Recovering
pub mod Refusing
pub mod ResetSteps
pub mod Resetting
pub mod Runs
pub mod Spelling
