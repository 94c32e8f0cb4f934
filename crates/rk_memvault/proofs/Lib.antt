pub mod ByTraces
pub mod Numbers
pub mod Replays
pub mod Scenes
pub mod Traces
pub mod Written
